pub mod OnFile
