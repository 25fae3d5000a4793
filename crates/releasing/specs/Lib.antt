pub mod Released
