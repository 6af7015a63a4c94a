pub mod SerialCalls
