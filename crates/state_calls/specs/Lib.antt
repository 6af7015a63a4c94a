pub mod StateAnswer
