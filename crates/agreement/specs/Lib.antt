pub mod PlanOf
pub mod System
pub mod Compared
pub mod Demand
