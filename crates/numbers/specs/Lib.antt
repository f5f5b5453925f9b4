-- The number of each call (document 01, 'Numbers of refusal'). A reader must believe: Numbers. Records of the work: what a number 0 leaves (Ready).
pub mod Numbers
pub mod Ready
