pub mod TopCalls
