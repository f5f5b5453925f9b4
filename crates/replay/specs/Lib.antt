-- What a replay of a list of calls answers and leaves. A reader must believe: the list that the lent arrays hold (Calls), and the outcome, the plain book's
-- answers, marks and rows for it (Outcome). Records of the work: Followed.
pub mod Calls
pub mod Outcome
pub mod Followed
