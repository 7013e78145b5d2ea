-- What must be believed:
--   Numbers  the documents' numbers for refusals, and an answer or a refusal as numbers
pub mod Numbers
