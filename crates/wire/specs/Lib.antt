pub mod Leads
pub mod Cursors
