pub mod Ranges
pub mod FirstGrades
pub mod Checked
pub mod LimitCaps
pub mod KeptLimits
pub mod CapSums
pub mod Sweeps
