-- The laws of forms: of the loop that looks at every byte, and of what each form says.
pub mod Passing
pub mod Laws
