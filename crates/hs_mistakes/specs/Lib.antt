pub mod BadLine
