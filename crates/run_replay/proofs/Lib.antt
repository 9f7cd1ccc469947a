pub mod MoveLaws
pub mod ReachedLaws
pub mod EndLaws
pub mod AfterLaws
pub mod MachineEnds
