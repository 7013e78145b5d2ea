-- What must be believed:
--   Interpretations  finite interpretations, 002, Table 1, and models
--   Dominoes         the numbers of dominoes, inverse role sets
--   Conditions       the conditions over a view, their order, Definition 5's stages, the canonical set
--   Views            what the conditions look at, of a knowledge base
--   Projection       an interpretation's dominoes
--   Layers           a finite interpretation in three layers, of a domino set's members
-- What proofs and statements about these definitions use:
--   Flattens         what it is to flatten a knowledge base, whatever the numbering and sharing
--   Labelling        labels that fit an interpretation
pub mod Interpretations
pub mod Dominoes
pub mod Conditions
pub mod Views
pub mod Projection
pub mod Layers
pub mod Flattens
pub mod Labelling
