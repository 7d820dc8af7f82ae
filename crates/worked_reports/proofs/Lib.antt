pub mod FewLines
