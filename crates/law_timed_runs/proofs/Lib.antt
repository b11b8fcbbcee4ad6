-- for this crate alone
mod TunedAlike
