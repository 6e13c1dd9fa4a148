mod Counting
mod LayoutLists
mod Lists
mod Promises
mod Views
mod Whole
mod Worked
