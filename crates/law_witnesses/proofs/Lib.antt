-- for this crate alone
mod WorkedTexts
