-- What must be believed:
--   Answers   what open, strike, settle and judge answer and leave
--   Demanded  demands 1 to 3
--   Reasons   what a strike tells (02, N2)
--   Decides   the one statement a user wants: bytes in, verdict out
-- What functions tell each other:
--   OwnSteps  the refusal of a call on a set, and what a strike does where there is room
-- What proofs and statements about these definitions use:
--   Examples  the worked sheets and strikes as rows of one table, and a list of calls
pub mod Answers
pub mod Demanded
pub mod Reasons
pub mod Decides
pub mod OwnSteps
pub mod Examples
