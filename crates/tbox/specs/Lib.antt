-- What must be believed:
--   Answers            the documents' numbers for the answers of read and list marks
--   Promise            the flattened knowledge base as plain data, for the layers above
-- What functions tell each other:
--   Admission          a sheet read into its records and parts, or refused
--   CountedParts       counting a list of parts
--   PlainData          parts as plain data
--   RestrictionPlaces  where each record that is a restriction stands among the parts
--   TruthWords         on which labels what is gone through holds, 64 at a time
--   GoodLabels         the labels on which every flattened axiom holds
--   ClosedRoleSets     the role sets on which every role inclusion holds
pub mod Answers
pub mod Promise
pub mod Admission
pub mod CountedParts
pub mod PlainData
pub mod RestrictionPlaces
pub mod TruthWords
pub mod GoodLabels
pub mod ClosedRoleSets
