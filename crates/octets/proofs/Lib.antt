pub mod EachByte
pub mod EightBits
