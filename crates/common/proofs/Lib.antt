pub mod Commonest
