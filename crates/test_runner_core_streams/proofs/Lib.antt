pub mod WholeWrite
