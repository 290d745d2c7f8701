pub mod Collectors
