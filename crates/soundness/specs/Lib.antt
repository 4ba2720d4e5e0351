-- Short cuts of the searches over pairs of records; what is sound is said in the ledger's own definitions.
pub mod Quick
