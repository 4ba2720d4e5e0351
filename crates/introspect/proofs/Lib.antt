-- What the text is by what was found, and what its writer's answer says.
pub mod Texts
