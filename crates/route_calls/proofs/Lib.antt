-- What a number 0 leaves to the work (Ready); a route of one node beside lazy and eager (OneNode); calls on N, worked out (Examples).
pub mod Ready
pub mod OneNode
pub mod Examples
