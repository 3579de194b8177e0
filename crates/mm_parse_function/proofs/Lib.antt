pub mod Optional
pub mod ParamExits
pub mod ConstructorExits
pub mod FunctionExits
