-- What must be believed:
--   Entries   an interpretation on file: its records, their first fault, what they draw
--   Checking  the labels and dominoes of a drawn interpretation, and the first place where it breaks the knowledge base
--   Meanings  what the answer of a check means, and what a drawing draws
--   Laid      records as bytes; those of an interpretation; its own
--   Layered   the drawing of a domino set in three layers
-- What statements about these definitions use:
--   Examples  the worked drawings
pub mod Entries
pub mod Checking
pub mod Meanings
pub mod Laid
pub mod Layered
pub mod Examples
