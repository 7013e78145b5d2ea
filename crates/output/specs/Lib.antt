-- What must be believed:
--   Text    texts as bytes
--   Output  bytes put into a lent buffer; what a call that writes bytes answers and leaves
pub mod Text
pub mod Output
