pub mod LineLaws
pub mod ScriptLemmas
