pub mod Packets
pub mod Items
pub mod Records
pub mod Tables
pub mod Connections
pub mod Rounds
