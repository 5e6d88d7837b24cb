pub mod Words
pub mod LineLaws
pub mod SectionLaws
pub mod SymbolLaws
pub mod FileLaws
pub mod VariableLaws
pub mod GraphFaults
pub mod OneFile
