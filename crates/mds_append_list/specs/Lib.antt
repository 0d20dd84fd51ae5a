pub mod AppendList
