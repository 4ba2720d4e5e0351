-- The short cuts of the pairwise searches miss nothing.
mod ShortCuts
