pub mod StateCalls
pub mod ValueCalls
