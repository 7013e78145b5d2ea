-- What functions tell each other:
--   Tables    the view of the flattened knowledge base that the code holds; sizes and room
--   Polarity  conditions 2 and 4, 3 and 5 as one, by what is wanted
--   Sets      a domino set and its knowledge base
pub mod Tables
pub mod Polarity
pub mod Sets
