-- What the calls with a table answer and leave. A reader must believe: build's outcome (Build); what insert and remove leave, and the struct that they
-- return of it (Updated); the table check's answer (TableCheck); what the table query leaves, and its struct (TableQuery). Records of the work: Work.
pub mod Build
pub mod Updated
pub mod TableCheck
pub mod TableQuery
pub mod Work
