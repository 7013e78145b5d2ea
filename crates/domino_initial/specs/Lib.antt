-- What functions tell each other:
--   RightMasks  what a left label and a role set ask of the right label, as masks
--   Opening     what opening leaves and answers; what its steps keep
--   Dropping    what is kept in a set in lent words
pub mod RightMasks
pub mod Opening
pub mod Dropping
