pub mod Qnames
