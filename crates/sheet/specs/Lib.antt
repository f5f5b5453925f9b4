-- Records of the work: what the functions of this crate require and leave. The sheet itself is a definition of network (Households).
pub mod Sources
pub mod List
pub mod Sheet
