pub mod Each
pub mod Ends
pub mod Lent
pub mod Nodes
pub mod Places
pub mod Spotted
pub mod Tops
pub mod Used
