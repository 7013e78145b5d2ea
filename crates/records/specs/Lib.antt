-- What must be believed:
--   Entries      a record as the definitions see it
--   Shapes       the table of kinds
--   Scan         reading record by record: faults 1 to 8, 16 and 17 with their places, T and L
--   Places       where the place of a fault lies: where a record starts, where a reference stands and what is wrong with it
-- What functions tell each other:
--   Kinds        what the code holds of a kind, read as the shape of the definitions
--   Nodes        what the code holds of a record, read as the record of the definitions
--   RecordTable  the answer of the scan as that of the definitions
pub mod Entries
pub mod Shapes
pub mod Scan
pub mod Places
pub mod Kinds
pub mod Nodes
pub mod RecordTable
