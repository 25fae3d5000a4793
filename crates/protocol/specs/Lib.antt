-- The rules of permits over an abstract plan, without bytes: the steps by which demand 3 is proved. What has to be read is `Demand` of
-- crates/agreement/specs/Demand.antt alone, with the definitions that it names; each file here says which of its own those are.
pub mod Generic
pub mod Plan
pub mod Rules
pub mod System
pub mod Language
pub mod Demand
