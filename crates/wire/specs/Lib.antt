-- Writing a packet.
pub mod Write
