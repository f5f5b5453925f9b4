-- The calls of document 02, Ask 1, with households and sites. A reader must believe: the number of each (Numbers), and its outcome, what it returns and what
-- every lent array holds then (Households, Sheet). What they list and write is network's (Households). Records of the work: Work.
pub mod Numbers
pub mod Households
pub mod Sheet
pub mod Work
