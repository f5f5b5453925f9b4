-- The call of document 02, Ask 7, with a route. A reader must believe: its number (Numbers), and its outcome, what it returns and what every lent array holds
-- then (Route, with the statement that a route of one node is answered as a site). What it lists is network's (Routes). Records of the work: Work.
pub mod Numbers
pub mod Route
pub mod Work
