-- What functions tell each other:
--   Asking     what parts and sets of parts ask of a right label, as masks
--   Rows       what a left label asks, as words of parts and as masks
--   Fittings   the tables of a knowledge base, and the rows in them
--   Openings   what a row adds to the size of the initial set
--   Live       sets of labels in words, and what is found in them
--   Searches   what the search for witnesses is asked
--   Thinnings  what sweeps over live labels leave
--   Writings   what is put into lent words
--   Judging    what judging leaves and answers
pub mod Asking
pub mod Rows
pub mod Fittings
pub mod Openings
pub mod Live
pub mod Searches
pub mod Thinnings
pub mod Writings
pub mod Judging
