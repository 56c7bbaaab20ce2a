pub mod Netlist
pub mod Rules
pub mod Timing
pub mod Tapped
pub mod Lowered
pub mod Valued
pub mod Planned
pub mod Networks
