-- What private functions alone speak of. No public contract rests on it.
pub mod WordByWord
pub mod WordsRead
