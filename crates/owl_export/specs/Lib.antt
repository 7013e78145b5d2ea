-- What must be believed:
--   AxiomText  axioms as text; roles that have none
--   Export     what export is to write of a sheet
-- What functions tell each other:
--   RecordText  records as the code goes through them: the concept of a tree, a record's line
--   Emitting    bytes put at the end of a text
pub mod AxiomText
pub mod Export
pub mod RecordText
pub mod Emitting
