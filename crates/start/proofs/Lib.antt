-- The laws of start.
mod Starting
