-- The conditions of document 01 (../shared/01-scope.md), 'Numbers of refusal', with those of document 02, and the answers of the calls. A reader must believe:
-- the number of each condition, 6 to 12 and 14, and the first of several (Conditions); the number and values of each answer (Values). Records of the work:
-- what looking for a road asks (Roads).
pub mod Conditions
pub mod Values
pub mod Roads
