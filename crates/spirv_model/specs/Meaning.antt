-- What a module does: the values of its instructions, its memory, one invocation, and a dispatch.
pub mod Values
pub mod Bindings
pub mod Memory
pub mod ModuleMeaning
pub mod ModuleDispatch
