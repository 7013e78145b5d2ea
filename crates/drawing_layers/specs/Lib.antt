-- What must be believed:
--   LayersDrawn  what the drawing of a domino set comes to
-- What functions tell each other:
--   Listing      the members of a set, as far as they are listed
--   Records      the records of a role set's connections
--   Pieces       a file's pieces, by layer, individual and layer again, and how many connections they have
pub mod LayersDrawn
pub mod Listing
pub mod Records
pub mod Pieces
