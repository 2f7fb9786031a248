pub mod CheckLemmas
pub mod FaultLemmas
pub mod HexText
pub mod OneCheckLine
pub mod OneLine
pub mod ScriptLemmas
pub mod ShownLemmas
pub mod TurnLemmas
