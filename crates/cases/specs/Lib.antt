-- How closely the calls are held: what is in order, the table of the proved edges, one outcome, and desks that the promises shut out.
pub mod Order
pub mod Cases
pub mod Table
pub mod Outcomes
pub mod Desks
pub mod Reminders
