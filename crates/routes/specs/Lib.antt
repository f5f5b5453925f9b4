-- Records of the work: what the functions of this crate require and leave. The list itself is a definition of network (Routes).
pub mod Route
