pub mod Said
pub mod Systems
pub mod Parts
pub mod Stand
